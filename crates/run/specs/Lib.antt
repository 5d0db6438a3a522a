-- What the code of the run promises beside the definitions of `rules`.
pub mod Numbers
pub mod inner
