pub mod Including
