pub mod Shapes
pub mod Sheets
