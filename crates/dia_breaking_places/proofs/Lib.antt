pub mod Firsts
mod Steps
