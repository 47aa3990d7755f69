-- What a reader must believe: the tree of the bytes of a source file, and their first fault.
pub mod Source
