pub mod Adding
mod Among
