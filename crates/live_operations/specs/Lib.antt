pub mod Coded
pub mod Live
pub mod Ranged
pub mod Ready
pub mod Worked
