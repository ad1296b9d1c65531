-- `Run` is document 01's; `Execute` is what the functions below `run` promise each other.
pub mod Run
pub mod Execute
pub mod ExecuteLaws
pub mod RunLaws
