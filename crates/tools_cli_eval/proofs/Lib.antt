mod Called
mod Looked
mod Assembled
