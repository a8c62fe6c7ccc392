pub mod Alike
pub mod Sequence
pub mod Choice
pub mod Repeat
pub mod Verdicts
pub mod Usual
pub mod Loops
