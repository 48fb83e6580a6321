pub mod ShorterTheorems
