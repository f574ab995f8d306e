pub mod Words
pub mod Fields
pub mod Reading
pub mod Later
pub mod Grammar
pub mod Commands
pub mod Printed
pub mod Forms
