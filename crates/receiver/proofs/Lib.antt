pub mod Products
pub mod Placing
pub mod Laying
pub mod Entering
