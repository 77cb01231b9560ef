pub mod Clients
pub mod OnOffer
