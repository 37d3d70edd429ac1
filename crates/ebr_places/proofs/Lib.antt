mod Shown
mod Items
mod GivenCodes
