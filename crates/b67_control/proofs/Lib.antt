pub mod ControlLaws
pub mod LayoutLaws
