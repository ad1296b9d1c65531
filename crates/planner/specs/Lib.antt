-- `Split` is what `planner_split` hands back.
pub mod Split
