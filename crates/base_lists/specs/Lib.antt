pub mod Options
pub mod Every
pub mod Places
pub mod Same
pub mod Members
pub mod Related
pub mod Parts
pub mod Results
