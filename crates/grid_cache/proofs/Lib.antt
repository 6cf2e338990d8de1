mod Bits
mod Rooms
mod Turning
mod Opening
