pub mod SteadyCallExamples
