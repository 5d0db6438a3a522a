pub mod Closer
