mod Gaining
mod Going
mod Serving
mod Working
mod Telling
mod Asking
mod InOrder
