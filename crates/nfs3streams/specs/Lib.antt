-- The command line, the conversion of a recording, and what is printed of it.
pub mod Grammar
pub mod Ports
pub mod StreamsLine
pub mod Printed
pub mod Conversion
pub mod Streams
pub mod machinery
