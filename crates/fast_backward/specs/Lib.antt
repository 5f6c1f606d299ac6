pub mod InputGradients
