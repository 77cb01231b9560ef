pub mod Grade
