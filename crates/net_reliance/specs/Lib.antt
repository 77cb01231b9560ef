pub mod RelianceRows
