pub mod Ops
pub mod Typing
pub mod Tracking
pub mod OperandStack
pub mod Labels
pub mod Groups
pub mod LocalTypes
pub mod ScopeContexts
