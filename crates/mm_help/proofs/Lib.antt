pub mod AskedCodes
