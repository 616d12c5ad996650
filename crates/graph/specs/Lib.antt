pub mod Gra
