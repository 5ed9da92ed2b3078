pub mod EnclosedFaces
