pub mod Control
pub mod Display
pub mod Kind
pub mod Laws
pub mod Layout
