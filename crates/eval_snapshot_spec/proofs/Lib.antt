mod Modules
mod Made
mod ContentsRows
mod Rows
mod WrongRows
