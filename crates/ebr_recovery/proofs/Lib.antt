mod Plans
mod Recovering
mod Extending
