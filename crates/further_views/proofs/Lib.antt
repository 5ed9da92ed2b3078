pub mod AskedLayers
pub mod KeyedLayers
