pub mod Machines
