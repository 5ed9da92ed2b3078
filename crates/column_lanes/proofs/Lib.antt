mod EightLanes
mod LowestBits
mod NearBits
mod MetColumns
pub mod StyleBytes
