pub mod Store
pub mod Numbers
pub mod Table
pub mod Laws
