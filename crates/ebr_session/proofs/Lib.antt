mod Exchanges
mod Asking
mod Following
mod Taking
mod Doing
mod Advancing
