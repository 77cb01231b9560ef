pub mod OwnClient
