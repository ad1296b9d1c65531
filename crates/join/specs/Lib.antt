-- Two maps joined: document 02, C-21. `Joined` is what they are joined to and what is refused, `JoinedLaws` its laws. `Bits` is how the code holds a vector as
-- one number, `BitsLaws` what that keeps.
pub mod Joined
pub mod JoinedLaws
pub mod Bits
pub mod BitsLaws
