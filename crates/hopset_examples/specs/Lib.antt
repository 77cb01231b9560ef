pub mod HopSetCallExamples
