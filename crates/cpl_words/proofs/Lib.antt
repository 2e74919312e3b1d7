mod Texts
mod Looks
mod Given
mod Steps
mod Ends
mod Agrees
mod Separators
mod Answered
