mod Givens
mod StreamSound
mod ViewSound
mod Chain
