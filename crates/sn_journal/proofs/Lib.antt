pub mod Balances
mod HoldingExample
pub mod Digits
pub mod Fronts
pub mod KeptFront
pub mod KindPlaces
pub mod LineCuts
pub mod LineKinds
pub mod LineNumbers
pub mod LineTexts
pub mod Outlines
pub mod Pieces
mod OutlineExample
pub mod TextExample
