mod Asking
mod LettingIn
mod NewHosts
mod Stepping
