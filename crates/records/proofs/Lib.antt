mod Cuts
mod NextStates
mod Signed
