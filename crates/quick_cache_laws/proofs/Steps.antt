-- What holds over any list of steps.
pub mod KeptTickets
pub mod Tickets
pub mod Sized
pub mod Valid
pub mod MarkCut
