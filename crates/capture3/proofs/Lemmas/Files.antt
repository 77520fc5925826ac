-- Whole files: well formed, or with a first fault.
pub mod FileMachineLemmas
pub mod FileRules
pub mod Verdicts
pub mod EndedMachines
pub mod Placed
pub mod Telling
