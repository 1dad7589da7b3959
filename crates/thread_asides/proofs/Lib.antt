mod Looking
mod TurnsSo
