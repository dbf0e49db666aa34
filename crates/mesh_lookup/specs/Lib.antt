pub mod LookupSteps
