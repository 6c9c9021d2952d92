pub mod MapEntries
pub mod Marks
pub mod PresentResults
pub mod BlockContents
pub mod UnknownOperands
pub mod Instructions
pub mod Replacing
pub mod UnreplacedCode
pub mod RenumberedCode
mod ReplacedRows
