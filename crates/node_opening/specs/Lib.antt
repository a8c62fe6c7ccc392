pub mod Goods
pub mod Left
pub mod Stands
pub mod Tables
pub mod Up
pub mod Why
