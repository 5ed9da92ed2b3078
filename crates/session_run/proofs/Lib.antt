mod EndSolids
mod Listed
mod Told
