pub mod SavingLaws
