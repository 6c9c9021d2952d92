pub mod Leads
pub mod Ended
pub mod Lists
pub mod Marks
