-- All examples of the crate. Files are checked in the order of their names, each after what it uses: by this one the examples are checked
-- before the laws, so that a wrong rule is refused at its example.
pub use Rattle.plan_rules.proofs.Examples.{bodies-examples}
pub use Rattle.plan_rules.proofs.ConvertedExamples.{widen-examples, narrow-examples}
