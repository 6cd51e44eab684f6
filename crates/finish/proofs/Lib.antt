mod Steps
mod Tells
mod Orders
mod Waitings
mod Zeros
mod Counts
mod MoreArrivals
mod MoreFirings
