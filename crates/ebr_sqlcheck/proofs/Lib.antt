mod Laws
mod ByName
