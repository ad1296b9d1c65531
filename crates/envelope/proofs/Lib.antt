-- `StackLaws` is what callers cite that read the stack. `HullLaws` and `Turns` are what the functions' proofs cite.
pub mod StackLaws
mod HullLaws
mod Turns
