pub mod Modules
mod LimitRows
mod StopRows
mod Rows
